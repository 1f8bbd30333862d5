-- Lemmas that crates which write cite.
pub mod ItemLines
