pub mod TermTests
pub mod DeclareVar
pub mod DefineFun
pub mod State
