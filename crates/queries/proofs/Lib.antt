pub mod QueryLaws
pub mod MemberLaws
pub mod ShareLaws
pub mod SeenLaws
