pub mod BoxLaws
pub mod ChooseLaws
pub mod FloorLaws
pub mod HalfLaws
pub mod JoinLaws
pub mod JudgeLaws
pub mod LeastLaws
pub mod LowerLaws
pub mod LowerValues
pub mod MemberLaws
pub mod PayLaws
pub mod PriceLaws
mod RoomLaws
pub mod SearchLaws
pub mod SpendLaws
pub mod StayLaws
mod StoreLaws
pub mod Sums
pub mod TakenLaws
pub mod ValueLaws
