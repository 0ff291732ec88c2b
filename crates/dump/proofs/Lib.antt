pub mod IndexTexts
pub mod Items
pub mod LineTexts
pub mod ScriptTexts
pub mod SentLines
pub mod Sessions
pub mod ValueTexts
pub mod WholeScript
