-- Elements of the three fields: the table of fields, laws of products and powers by exponents, the tables lent to the code,
-- and the operations' answers.
pub mod Fields
pub mod Exponents
pub mod Lent
pub mod Operations
