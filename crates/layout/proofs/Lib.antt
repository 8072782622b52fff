-- Lemmas of the layout's own proofs.
mod Ranges
