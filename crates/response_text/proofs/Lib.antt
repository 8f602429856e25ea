pub mod FirstTasks
mod PartLines
mod Expecting
pub mod Keeping
pub mod OneText
pub mod Refused
mod Unread
mod Numbered
mod Inside
mod OwnSections
mod OneNames
mod OneParts
pub mod OneTaskText
