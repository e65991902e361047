mod KindLemmas
mod Scripted
mod SimpleWords
