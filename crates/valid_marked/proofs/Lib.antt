pub mod MarkedProof
