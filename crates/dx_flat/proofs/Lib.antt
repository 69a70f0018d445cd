pub mod FlatCalls
