pub mod Place
pub mod ItemSteps
pub use Rattle.sim_relation.specs.Progress
pub mod Outside
