pub mod ProgramRun
