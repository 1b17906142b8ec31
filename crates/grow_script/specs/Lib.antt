pub mod GrowGrammar
