pub mod RunTimesLemmas
pub mod BitLemmas
pub mod SeatRunLemmas
