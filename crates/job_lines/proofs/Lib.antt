mod ReplyLemmas
mod RowLemmas
mod WaitLemmas
