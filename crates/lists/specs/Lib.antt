-- What each promise of this crate cites, and what each kind of group shows of its laws.
pub mod Lists
pub mod Laws
