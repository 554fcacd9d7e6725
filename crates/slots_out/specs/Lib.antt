pub mod CodeSlots
