pub mod MigrateLaws
pub mod MigrateMachine
pub mod MigrateMeaning
pub mod Migrated
pub mod OneStep
