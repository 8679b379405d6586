-- Laws of the notation: a text has one reading (FollowLaws), the scanner finds it or the place where the text is wrong
-- (BuildLaws, MendLaws), how deep it nests and how long its plan is; and a sequence as a reader meets it (Here).
pub mod Ended
pub mod EndedLaws
pub mod FollowLaws
pub mod BuildLaws
pub mod MendLaws
pub mod NestingLaws
pub mod SizeLaws
pub mod FirstLaws
pub mod PassLaws
pub mod AboveLaws
pub mod TokensLaws
pub mod Here
pub mod HereLaws
pub mod WholeLaws
pub mod FaultlessLaws
pub mod NotationMet
pub mod TextCasesHold
pub mod TextFits
