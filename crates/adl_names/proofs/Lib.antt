pub mod BodyLists
pub mod Common
pub mod FewRepeated
pub mod Leaves
pub mod Rising
