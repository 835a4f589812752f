-- The calls of each caller in a history.
pub mod CallsByCaller
-- What is left of the parts.
pub mod Lefts
-- Histories by their places.
pub mod ByPlace
-- Parts whose receipts are places, each once, have a history.
pub mod AllPlaces
-- Calls that may change places, by the counts that their receipts name.
pub mod Swaps
-- What a queue replies, by the items that were enqueued in all.
pub mod Replies
-- The laws of the order.
pub mod Orders
-- The first call left of each kind tells of all that are left.
pub mod Firsts
-- The part whose turn it is.
pub mod Choices
-- The order that takes the least caller first.
pub mod Chosen
-- A history woven a turn at a time.
pub mod Turns
-- What is ahead of a part, once its first call is taken.
pub mod Behind
