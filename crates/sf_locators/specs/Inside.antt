-- Words that serve the proofs of the locators alone.
pub mod LocatorFaults
