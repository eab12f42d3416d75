-- Rule 4, the convolutional code.
pub mod CodeTable
