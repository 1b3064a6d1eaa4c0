pub mod CaseHolds
