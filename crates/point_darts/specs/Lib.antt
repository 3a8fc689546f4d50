pub mod Dart
pub mod Point
