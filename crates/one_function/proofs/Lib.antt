pub mod BodyRows
pub mod FunctionAndBody
pub mod OneFunction
pub mod NextFunction
