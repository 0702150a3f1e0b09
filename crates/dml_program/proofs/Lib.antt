mod Beginnings
mod Creations
mod MainRows
mod Openings
mod Reports
mod ScriptReports
mod ToldAnswers
mod TwiceLaws
