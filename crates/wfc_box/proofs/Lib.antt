pub mod StackLemmas
pub mod DocumentLemmas
pub mod BoxLemmas
pub mod BridgeLemmas
pub mod FlagLemmas
pub mod TextLemmas
pub mod BuiltLemmas
pub mod CallerLemmas
