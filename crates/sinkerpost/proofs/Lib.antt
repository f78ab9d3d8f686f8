-- Where a refusal can be, that number and place can be told apart again, what the answer says of what is lent, and that the promises determine
-- what they promise.
pub mod Places
pub mod Back
pub mod Leaving
pub mod Once
