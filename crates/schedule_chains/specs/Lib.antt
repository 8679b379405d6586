pub mod Following
pub mod FollowingLaws
