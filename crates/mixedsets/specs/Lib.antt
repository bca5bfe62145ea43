pub mod PaperSets
pub mod OwnedSets
pub mod LayeredSets
