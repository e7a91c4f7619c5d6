pub mod DisplacedLemmas
