pub mod Conflicts
pub mod ConflictsLaws
pub mod Marking
pub mod MarkingLaws
pub mod MembersLaws
pub mod WalkLaws
