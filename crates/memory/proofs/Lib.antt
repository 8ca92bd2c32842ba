pub mod RowLaws
pub mod PriorityLaws
pub mod SlotLaws
pub mod QueueLaws
