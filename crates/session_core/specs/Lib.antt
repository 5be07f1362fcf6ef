pub mod Roomy
pub mod Standings
pub mod Sessions
pub mod Meetings
pub mod Runnings
pub mod Insides
pub mod Worked
