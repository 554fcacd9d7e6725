-- The lemma files of this crate; `ByRule01`, `AtEnd` and `Carries` have theorems.
pub mod BeginLaws
pub mod MoveLaws
pub mod RunLaws
pub mod FastMove
pub mod AlongLaws
pub mod MakeMove
pub mod Kept
pub mod LoopLaws
pub mod StepLaws
pub mod AtEnd
pub mod Carries
pub mod ByRule01
