-- That the promise determines what the function answers and leaves.
pub mod Once
