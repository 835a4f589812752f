pub mod TurnFacts
pub mod Laws
pub mod Tickets
pub mod Holding
pub mod Joining
pub mod Ends
pub mod UnderTurn
pub mod Halves
