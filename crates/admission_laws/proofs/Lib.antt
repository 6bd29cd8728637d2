-- To read in this order: Written (settings as they are written), Tokens (the token of an item), Items (the outputs of
-- items), Commanded (the command of a transaction); then Structures (the leaves of a structure), Declared (members that
-- are declared once), Meant (the templates of a text), Histories (what steps keep); Examples: the premises can be met.
pub mod Written
pub mod Tokens
pub mod Items
pub mod Commanded
pub mod Structures
pub mod Declared
pub mod Meant
pub mod Histories
pub mod Examples
