pub mod IdleVariables
pub mod AskedPatterns
pub mod LinkSteps
pub mod AskedRoles
