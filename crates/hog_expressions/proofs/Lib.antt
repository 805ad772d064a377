pub mod ExpressionLoops
pub mod Placing
