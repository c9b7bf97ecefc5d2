pub mod ServingLemmas
