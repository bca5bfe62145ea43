pub mod Kind
pub mod Kinds
pub mod Printed
