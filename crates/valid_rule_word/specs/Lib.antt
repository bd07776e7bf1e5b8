pub mod RuleWord
