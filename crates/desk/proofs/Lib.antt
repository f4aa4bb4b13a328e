mod AskLaws
mod HistoryLaws
mod OpeningLaws
mod RequestLaws
mod StreamLaws
mod TalkLaws
