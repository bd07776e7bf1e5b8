pub mod BlendLaws
