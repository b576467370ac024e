mod NumberLaws
mod PrintLaws
mod WordLaws
mod FormLaws
mod RuleLaws
mod FillingLaws
pub mod GrammarLaws
pub mod Theorem
mod PlaceLaws
mod PartLaws
mod StopLaws
mod FindingLaws
