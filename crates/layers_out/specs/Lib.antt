pub mod CodeCycle
