pub mod Asked
pub mod EventCodes
pub mod EventLines
pub mod Items
pub mod Laws
pub mod Named
pub mod SaidLines
