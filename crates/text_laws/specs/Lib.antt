pub mod OneJudgement
pub mod OneMeaning
