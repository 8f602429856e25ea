mod FaultLines
mod NamedFaults
mod Apart
mod Trees
mod FewLines
