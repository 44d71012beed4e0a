pub mod Asked
pub mod LineMeaning
pub mod LinesDo
pub mod LinesMachine
pub mod SaysAsked
