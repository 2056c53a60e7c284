pub mod SolveLaws
