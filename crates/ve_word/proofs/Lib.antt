mod Spellings
mod Ranks
mod Weights
mod Places
mod Texts
