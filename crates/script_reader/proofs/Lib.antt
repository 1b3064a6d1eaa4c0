pub mod CommandWords
pub mod TakenByCode
pub mod KnownAfter
pub mod JudgedInOrder
pub mod TestedByCode
pub mod CommandReading
pub mod ScriptWalk
