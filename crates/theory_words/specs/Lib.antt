-- Words over an alphabet with undos and conflicts: swaps, the group, reduction, the normal form.
-- A definition file is short and computes; its laws stand in the file of the same name with Laws.
pub mod BoolLaws
pub mod Alike
pub mod AlikeLaws
pub mod Filter
pub mod Alphabet
pub mod All
pub mod Trace
pub mod Group
pub mod Reduce
pub mod Normal
pub mod Stack
pub mod TraceLaws
pub mod GroupLaws
pub mod FilterLaws
pub mod ReduceLaws
pub mod NormalLaws
pub mod StackLaws
pub mod LetterLaws
pub mod Trim
pub mod TrimLaws
