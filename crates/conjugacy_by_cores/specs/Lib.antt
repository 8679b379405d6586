pub mod CoreAndLead
pub mod CoreAndLeadLaws
pub mod ThroughLaws
pub mod Join
pub mod JoinLaws
