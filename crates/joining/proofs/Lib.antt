pub mod PushLaws
