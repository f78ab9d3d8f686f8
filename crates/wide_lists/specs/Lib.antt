-- What each promise of this crate cites, and what a kind of group shows of its laws.
pub mod WideLists
pub mod Laws
