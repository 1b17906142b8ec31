-- Lemmas of the tests.
mod Reading
